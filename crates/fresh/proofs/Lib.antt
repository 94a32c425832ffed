pub mod Blocks
pub mod FreshRows
