-- Lemmas of this crate.
pub mod Links
