pub mod Taken
pub mod Drawn
pub mod Paired
