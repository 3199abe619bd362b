pub mod Stepping
pub mod Serving
pub mod Copying
pub mod Opens
pub mod Replies
pub mod Lending
pub mod Made
pub mod Resumed
