pub mod Answers
pub mod Witness
pub mod Given
