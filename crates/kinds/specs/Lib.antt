pub mod Carriers
pub mod References
pub mod Control
pub mod Kinds
pub mod Numbered
pub mod Places
pub mod Clauses
