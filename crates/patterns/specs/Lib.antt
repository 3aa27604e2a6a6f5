pub mod Patterns
pub mod Loaded
pub mod Clauses
