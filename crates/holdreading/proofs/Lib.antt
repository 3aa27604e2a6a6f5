pub mod Bytes
pub mod Found
pub mod Taking
pub mod Lining
pub mod SmallPoints
pub mod Valid
