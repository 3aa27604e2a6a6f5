pub mod Calls
pub mod Theorems
pub mod Clauses
pub mod Bytes
