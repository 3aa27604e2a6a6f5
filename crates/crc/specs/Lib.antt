pub mod Bits
pub mod Crc
