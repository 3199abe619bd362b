-- What the contracts of this crate cite.
pub mod Agreement
pub mod Clearing
pub mod Saving
pub mod Turn
