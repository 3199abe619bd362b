-- What the contracts of this crate cite.
pub mod Evening
pub mod EveningLinesProof
pub mod EveningsProof
pub mod Examples
pub mod FollowingProof
pub mod ReplayEnds
pub mod Tagged
