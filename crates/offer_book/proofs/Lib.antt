pub mod Keeping
pub mod Few
pub mod Meaning
