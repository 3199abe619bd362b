pub mod Counts
pub mod Ending
pub mod LineAnswers
pub mod OneGame
pub mod Stored
