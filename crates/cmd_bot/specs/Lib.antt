-- What the contracts of this crate cite.
pub mod BotEnds
pub mod BotLines
pub mod BotText
pub mod Game
pub mod Inputs
