pub mod Layout
pub mod Rows
pub mod View
pub mod Sound
pub mod Untouched
