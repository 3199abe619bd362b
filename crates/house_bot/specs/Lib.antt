pub mod Value
pub mod Searching
pub mod AnswerText
