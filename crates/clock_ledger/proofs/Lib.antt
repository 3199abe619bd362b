-- Lemmas of this crate.
pub mod Remaining
pub mod Sums
