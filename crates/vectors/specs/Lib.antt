pub mod Digest
pub mod Draws
pub mod Pairings
