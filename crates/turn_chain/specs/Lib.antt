pub mod Lent
pub mod Chain
