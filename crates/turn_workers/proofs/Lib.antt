pub mod Weighing
pub mod Working
pub mod Closing
pub mod SeenOnce
