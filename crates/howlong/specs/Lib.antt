pub mod HowLong
pub mod Clauses
