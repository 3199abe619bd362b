-- What the contracts of this crate and of those above it cite.
pub mod Lends
pub mod ItemsWithRoom
pub mod Rising
