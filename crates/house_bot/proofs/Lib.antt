pub mod Cuts
pub mod Raises
pub mod Choices
pub mod Moves
pub mod Bounds
pub mod Values
pub mod Roots
