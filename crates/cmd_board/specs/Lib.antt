-- What the contracts of this crate cite.
pub mod BoardEnds
pub mod Endings
pub mod Game
pub mod GameFields
pub mod Transcript
