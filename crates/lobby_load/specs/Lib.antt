-- What the contracts of this crate cite.
pub mod BadRows
pub mod Calling
pub mod Loaded
pub mod Refused
pub mod Telling
pub mod Filling
