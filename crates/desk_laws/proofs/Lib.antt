pub mod Boards
pub mod Words
pub mod Accepting
pub mod Refusing
