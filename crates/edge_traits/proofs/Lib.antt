-- Lemmas for the crates that keep tables.
pub mod Rising
