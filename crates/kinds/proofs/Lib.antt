pub mod Bands
pub mod Paints
pub mod Gains
pub mod Symbols
