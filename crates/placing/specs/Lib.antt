pub mod Cells
pub mod Clauses
