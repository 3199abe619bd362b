-- Lemmas of this crate.
pub mod EachStep
pub mod Numbers
pub mod Places
pub mod Tests
pub mod Rising
