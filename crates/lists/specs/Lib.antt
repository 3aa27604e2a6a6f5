pub mod Same
pub mod Lists
pub mod Bools
pub mod Bytes
pub mod Buffers
