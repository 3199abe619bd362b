-- What the contracts of this crate cite.
pub mod Games
pub mod Exports
pub mod PgnEnds
