pub mod Opening
pub mod Apart
pub mod Running
pub mod Commuting
