pub mod Meaning
pub mod Doings
