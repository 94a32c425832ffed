pub mod Sights
pub mod Ticks
