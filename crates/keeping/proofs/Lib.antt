pub mod Rows
pub mod RowRead
