pub mod Onward
pub mod Listens
pub mod Whole
pub mod Bounds
pub mod Once
