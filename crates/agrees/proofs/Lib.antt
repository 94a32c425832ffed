pub mod Seed1
pub mod Seed2
pub mod Seed3
