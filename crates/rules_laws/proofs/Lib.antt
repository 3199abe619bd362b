pub mod Turning
pub mod MenTurned
pub mod MirrorHolds
