pub mod Argument
pub mod Fit
