-- What the contracts of this crate cite.
pub mod Demo
pub mod DemoEnds
pub mod Said
pub mod Summary
pub mod Turns
