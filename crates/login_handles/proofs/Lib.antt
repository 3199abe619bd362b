pub mod AccountLists
pub mod GuestNames
