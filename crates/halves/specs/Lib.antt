pub mod Halves
pub mod Clauses
pub mod Theorems
