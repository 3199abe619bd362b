-- What the contracts of this crate cite.
pub mod Attendance
pub mod Draws
pub mod Order
pub mod Script
pub mod SeatLine
pub mod Words
