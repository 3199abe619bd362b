-- What the contracts of this crate cite.
pub mod Jobs
pub mod Options
pub mod Usage
