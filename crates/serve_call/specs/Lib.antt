pub mod Opening
pub mod ServeEnds
