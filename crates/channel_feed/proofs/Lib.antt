-- Lemmas of this crate.
pub mod Counting
pub mod Meaning
pub mod TakenBack
