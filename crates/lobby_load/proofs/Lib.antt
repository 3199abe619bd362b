pub mod RowsSorted
pub mod Counting
pub mod Growing
pub mod Unheld
pub mod Filled
pub mod Least
pub mod Answering
pub mod Told
