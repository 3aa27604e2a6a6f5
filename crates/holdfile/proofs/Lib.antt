pub mod Turning
pub mod Undone
