pub mod Going
pub mod Moves
pub mod Printed
pub mod Saying
pub mod Told
