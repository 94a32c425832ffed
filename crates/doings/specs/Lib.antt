pub mod Row
pub mod Doing
