pub mod Bits
pub mod Sets
pub mod Register
pub mod Codeword
pub mod Decoding
pub mod Lengths
pub mod SevenBits
pub mod Encoding
mod Reading
pub mod Widths
