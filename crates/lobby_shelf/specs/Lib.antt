-- What the contracts of this crate cite.
pub mod Numbers
pub mod Players
pub mod Marks
pub mod Shelf
pub mod Facts
pub mod Held
pub mod Wanted
pub mod Laws
