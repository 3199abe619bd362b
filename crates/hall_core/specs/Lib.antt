pub mod Pass
pub mod Passes
pub mod Acts
pub mod Apart
