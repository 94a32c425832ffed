pub mod Long
pub mod NoHex
pub mod Room
pub mod Meaning
pub mod Once
