pub mod Rates
pub mod Cells
pub mod Formulas
pub mod Clauses
