pub mod Found
pub mod OneText
pub mod OneRow
pub mod OneShelf
pub mod RowCounts
pub mod GoodTable
pub mod Restart
