pub mod Feeding
pub mod Held
