pub mod Loaded
pub mod Patterns
pub mod Standard
