pub mod Laid
pub mod Words
pub mod Parameters
pub mod Block
