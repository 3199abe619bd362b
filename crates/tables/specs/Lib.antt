-- What the contracts of this crate cite.
pub mod Rows
pub mod Lends
pub mod Sifting
