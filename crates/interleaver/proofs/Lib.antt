pub mod Cycle
pub mod Size
pub mod Places
pub mod Interleaving
pub mod Chains
