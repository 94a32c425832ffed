pub mod Exchange
pub mod History
pub mod Answers
