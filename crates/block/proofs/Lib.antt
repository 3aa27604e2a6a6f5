pub mod Lists
pub mod Packing
pub mod Dispersal
pub mod Mapping
pub mod Levels
pub mod Blocks
pub mod Reader
