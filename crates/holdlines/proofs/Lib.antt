pub mod Hexadecimal
pub mod Numbers
pub mod Lines
pub mod LineLengths
pub mod FoundDigits
