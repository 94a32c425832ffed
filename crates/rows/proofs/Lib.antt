pub mod Changes
pub mod Lent
pub mod Meaning
