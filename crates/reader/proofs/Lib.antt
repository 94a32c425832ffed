pub mod Judging
pub mod ReadBack
