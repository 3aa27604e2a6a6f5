pub mod Lost
pub mod Endings
