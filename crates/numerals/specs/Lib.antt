pub mod Clauses
pub mod Digits
pub mod Numbers
