pub mod Calls
pub mod Once
pub mod Writes
pub mod Short
pub mod Alone
pub mod Steps
pub mod HeldBack
pub mod Making
