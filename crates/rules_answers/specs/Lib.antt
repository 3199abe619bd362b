pub mod NamedWords
