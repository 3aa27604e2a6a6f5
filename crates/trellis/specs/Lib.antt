pub mod Clauses
pub mod Nearest
