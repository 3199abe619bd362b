pub mod Matches
pub mod Opponents
pub mod Seeks
