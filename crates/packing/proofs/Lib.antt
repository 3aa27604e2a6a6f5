pub mod Unpacking
pub mod Pieces
pub mod Bytes
pub mod Spare
