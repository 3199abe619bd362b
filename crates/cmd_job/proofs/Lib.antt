pub mod JobsNamed
pub mod OptionsRead
