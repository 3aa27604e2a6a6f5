pub mod LookUps
pub mod Levels
pub mod Parts
pub mod PartA
pub mod Bounds
pub mod Counts
