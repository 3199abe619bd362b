pub mod Places
pub mod StepSigns
pub mod Tables
pub mod Doors
