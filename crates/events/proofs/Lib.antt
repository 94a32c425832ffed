pub mod Events
pub mod Short
