pub mod Blanks
pub mod Letters
pub mod Pretty
pub mod Verbose
pub mod Spelling
