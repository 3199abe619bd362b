-- What the contracts of this crate cite.
pub mod Tidying
pub mod TidyEnds
pub mod Putting
