pub mod Treated
pub mod Fitting
pub mod Statements
