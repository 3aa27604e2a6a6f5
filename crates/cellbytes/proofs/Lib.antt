pub mod TwosComplement
pub mod CellBytes
pub mod Stored
pub mod Bits
pub mod Loops
