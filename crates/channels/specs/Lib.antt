pub mod Scheme
pub mod Protected
pub mod Fac
pub mod Sdc
pub mod Msc
pub mod Clauses
pub mod Cases
pub mod Once
