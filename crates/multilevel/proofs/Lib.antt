pub mod Partition
pub mod Totals
pub mod Axes
pub mod Turns
pub mod Summing
pub mod LevelsRead
pub mod PartsRead
