pub mod Ring
pub mod Turns
pub mod Points
pub mod Progress
pub mod FillerTurns
