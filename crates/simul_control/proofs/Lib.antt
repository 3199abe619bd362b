-- Lemmas of this crate.
pub mod Field
pub mod Leaving
pub mod Circle
