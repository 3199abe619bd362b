pub mod Accounts
pub mod Guests
