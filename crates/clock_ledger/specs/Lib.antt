-- What the contracts of this crate cite.
pub mod Span
pub mod Charges
pub mod Clock
