pub mod Copied
pub mod Asked
