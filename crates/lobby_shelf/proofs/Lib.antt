-- Lemmas of this crate.
pub mod Lists
pub mod Rising
pub mod Requests
pub mod Keeping
pub mod Held
pub mod Finding
pub mod Meaning
pub mod Leading
pub mod Marked
