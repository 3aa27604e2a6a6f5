pub mod Register
pub mod Periods
pub mod Unpacked
