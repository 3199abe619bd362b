pub mod Cuts
pub mod Events
pub mod Orders
pub mod Presences
pub mod Seats
