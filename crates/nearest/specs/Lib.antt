pub mod Coded
pub mod Fac
pub mod Clauses
pub mod Theorem
