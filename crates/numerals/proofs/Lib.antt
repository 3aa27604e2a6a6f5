pub mod Hex
pub mod Printing
pub mod Scanning
