pub mod Bytes
pub mod Loops
pub mod Minutes
pub mod Chain
pub mod WeekPlans
