pub mod Received
pub mod Outs
pub mod ReadOnRuns
pub mod ReadOnSame
pub mod OnRuns
