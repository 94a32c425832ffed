pub mod Answers
pub mod TableAnswers
