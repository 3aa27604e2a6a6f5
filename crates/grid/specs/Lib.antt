pub mod Calls
pub mod Counts
pub mod Theorems
pub mod Clauses
pub mod Numbered
