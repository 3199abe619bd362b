pub mod Ending
pub mod Listed
pub mod OneList
pub mod StoreGames
pub mod Written
