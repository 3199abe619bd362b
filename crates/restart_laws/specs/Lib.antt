-- What the contract of this crate cites.
pub mod Restart
pub mod Good
pub mod Examples
