pub mod Refusal
pub mod Lengths
pub mod Sizes
pub mod Accepted
