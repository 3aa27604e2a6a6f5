pub mod Hexadecimal
pub mod Files
pub mod Clauses
