pub mod Holds
pub mod Restores
pub mod Numbered
