pub mod Channels
pub mod Counts
pub mod NameLists
pub mod Waiting
pub mod Laws
