pub mod TwosComplement
pub mod CellBytes
pub mod Clauses
