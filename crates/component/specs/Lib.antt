pub mod Bits
pub mod Register
pub mod Codeword
pub mod Decoding
pub mod Coding
