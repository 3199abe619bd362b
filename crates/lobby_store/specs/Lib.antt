-- What the contracts of this crate cite.
pub mod Carrying
pub mod Rows
pub mod Agreeing
