pub mod Stored
pub mod Adds
