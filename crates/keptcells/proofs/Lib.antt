pub mod Turns
pub mod ReadOnCalls
