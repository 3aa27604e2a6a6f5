pub mod Mixing
pub mod Weights
pub mod Ordering
