pub mod MemDoor
pub mod Plan
pub mod Shelf
pub mod Slate
pub mod Stock
pub mod Wire
