-- What the contracts of this crate cite.
pub mod Answers
pub mod Fairness
pub mod Pairing
pub mod Scores
pub mod Table
pub mod Tourney
