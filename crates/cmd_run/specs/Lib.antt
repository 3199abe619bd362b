-- What the contracts of this crate cite.
pub mod RunEnds
pub mod Words
