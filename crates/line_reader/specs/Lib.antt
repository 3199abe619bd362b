-- What the contracts of this crate cite.
pub mod Telnet
pub mod Cutting
pub mod Reading
pub mod Reader
pub mod Grammar
