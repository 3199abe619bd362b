pub mod Tales
pub mod Talking
pub mod Arriving
pub mod Stamps
pub mod Stepping
pub mod Ending
pub mod Owning
pub mod Answering
