pub mod BitsFields
pub mod Rays
pub mod Sets
pub mod Stops
pub mod Strikers
