pub mod Opening
pub mod ServeEnds
pub mod Unopened
