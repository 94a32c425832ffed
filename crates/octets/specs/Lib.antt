pub mod Tests
pub mod Each
pub mod Parts
pub mod Numbers
pub mod Areas
