-- Lemmas of this crate.
pub mod OpponentRows
pub mod Pairs
pub mod Rising
pub mod Standing
