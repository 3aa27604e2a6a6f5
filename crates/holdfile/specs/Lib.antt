pub mod Convert
pub mod Clauses
pub mod Theorems
