-- What the contracts of this crate cite.
pub mod Numbers
pub mod Packed
pub mod Codes
pub mod Bounds
pub mod Spelling
pub mod Keys
pub mod Reading
pub mod Replays
pub mod Laws
pub mod Examples
