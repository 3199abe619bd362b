pub mod LineAnswers
pub mod RoundNumbers
pub mod RowTexts
