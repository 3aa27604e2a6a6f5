pub mod Distance
pub mod Cells
pub mod Clauses
