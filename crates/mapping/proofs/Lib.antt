pub mod Coordinates
pub mod Labellings
pub mod Labels
pub mod Signed
