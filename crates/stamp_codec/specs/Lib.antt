-- What the contracts of this crate cite.
pub mod Message
pub mod Spelling
pub mod Opening
pub mod Sealed
pub mod Examples
