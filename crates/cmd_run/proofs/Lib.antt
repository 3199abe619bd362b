pub mod Named
pub mod RunEnds
