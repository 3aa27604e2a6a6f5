pub mod Parts
pub mod OneLevel
pub mod OneRead
