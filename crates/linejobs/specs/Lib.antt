pub mod Nearest
pub mod Fields
pub mod Lines
