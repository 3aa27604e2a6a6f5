pub mod Counting
pub mod Refusals
