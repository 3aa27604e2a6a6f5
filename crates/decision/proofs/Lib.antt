pub mod Nearness
pub mod Places
pub mod Axes
pub mod Finite
