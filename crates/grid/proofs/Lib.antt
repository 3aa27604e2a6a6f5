pub mod Pairings
pub mod Counts
pub mod Accepts
pub mod Inverses
