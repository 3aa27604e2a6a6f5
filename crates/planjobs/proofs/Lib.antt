pub mod Scanned
pub mod Printing
pub mod Stretches
pub mod Words
