pub mod Spelled
pub mod Answered
pub mod PawnOrigins
pub mod ReadBack
