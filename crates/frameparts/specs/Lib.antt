pub mod Streams
pub mod Split
pub mod Clauses
