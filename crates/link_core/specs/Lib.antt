pub mod Arrivals
pub mod Laws
pub mod Talk
pub mod ServedWhole
pub mod ServedInPart
pub mod Serving
pub mod Steps
