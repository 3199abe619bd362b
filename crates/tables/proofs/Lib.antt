-- Lemmas of this crate.
pub mod KeyedRows
pub mod Placed
pub mod Firsts
pub mod PutLast
pub mod Sifting
