pub mod Causes
pub mod Digits
pub mod Each
pub mod Ends
pub mod HandleTests
pub mod Padding
pub mod Pieces
pub mod Positions
