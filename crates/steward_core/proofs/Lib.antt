pub mod DesksCleared
pub mod OrdersSaved
pub mod OrdersTold
pub mod StatesLead
pub mod AgreedStill
