pub mod Ranges
pub mod ReadBack
