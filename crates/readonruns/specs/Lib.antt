pub mod Received
pub mod OnRuns
