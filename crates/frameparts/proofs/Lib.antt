pub mod Stores
pub mod Zeros
pub mod Streams
pub mod Split
pub mod Loops
