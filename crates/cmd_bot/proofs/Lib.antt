pub mod BotTexts
pub mod FirstBad
pub mod Games
pub mod GamesGiven
pub mod Variants
