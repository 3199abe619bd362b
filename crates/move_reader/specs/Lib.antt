pub mod Ends
pub mod Examples
pub mod Reading
pub mod Spellings
