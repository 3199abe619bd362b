pub mod LineAnswers
