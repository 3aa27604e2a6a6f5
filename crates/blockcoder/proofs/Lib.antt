pub mod Woven
pub mod Coding
pub mod Each
