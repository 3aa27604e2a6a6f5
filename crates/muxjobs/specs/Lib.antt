pub mod Argument
pub mod Frames
pub mod Clauses
