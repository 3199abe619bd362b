-- What the contracts of this crate cite.
pub mod ClosingCommand
pub mod ClosingCommandEnds
pub mod Ends
pub mod FeederEnds
pub mod Feeding
pub mod HandlerEnds
pub mod Handling
pub mod LineCommand
pub mod LineCommandEnds
pub mod Lines
pub mod MachineFeeding
pub mod PlayedLinesProof
pub mod Progress
pub mod Reading
pub mod Words
pub mod HandlerStanding
