pub mod NeverSaving
pub mod OfCommands
pub mod OfInputs
pub mod OfLinks
pub mod OfHistories
