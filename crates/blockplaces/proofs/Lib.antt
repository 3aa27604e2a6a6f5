pub mod Levels
pub mod Orders
