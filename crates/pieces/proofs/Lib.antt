pub mod Widths
pub mod Marks
pub mod Whole
