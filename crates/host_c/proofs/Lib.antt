pub mod Fits
pub mod Told
pub mod Lengths
pub mod Once
