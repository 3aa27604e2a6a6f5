pub mod Interleaving
pub mod Deinterleaving
pub mod Cycle
pub mod Tables
