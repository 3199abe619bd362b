-- What the contract of this crate cites.
pub mod LegalMoves
pub mod Refusals
