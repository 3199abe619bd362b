-- What the contracts of this crate cite.
pub mod Answers
pub mod Exam
pub mod Examples
pub mod Holds
pub mod Laid
pub mod Laws
pub mod Lines
pub mod Play
pub mod Same
pub mod Steps
