pub mod Room
pub mod Seal
