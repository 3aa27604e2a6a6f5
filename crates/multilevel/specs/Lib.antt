pub mod Clauses
pub mod Parts
