pub mod LongLines
pub mod OpenLines
pub mod Printable
pub mod Steps
pub mod Units
pub mod Whole
