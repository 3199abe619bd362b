pub mod Each
pub mod Marks
pub mod Places
pub mod Written
pub mod Swaps
pub mod Openings
