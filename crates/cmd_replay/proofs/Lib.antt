pub mod ActsMade
pub mod Doings
pub mod EveningAnswers
pub mod Leaving
pub mod Memories
pub mod NextLines
pub mod ReplayEnds
pub mod Showing
