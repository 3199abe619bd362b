pub mod NamedAnswers
