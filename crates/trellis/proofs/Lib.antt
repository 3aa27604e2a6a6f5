pub mod Disagreement
pub mod Layers
pub mod Ways
