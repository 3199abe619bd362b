pub mod Core
pub mod History
pub mod Laws
pub mod Running
