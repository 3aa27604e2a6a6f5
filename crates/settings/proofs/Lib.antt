pub mod Chain
pub mod Bounds
pub mod Buffers
