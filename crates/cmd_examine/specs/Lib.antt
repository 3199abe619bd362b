-- What the contracts of this crate cite.
pub mod ExamineEnds
pub mod Examples
pub mod Lines
pub mod OneGame
pub mod Texts
