pub mod Read
pub mod Written
pub mod Numbered
pub mod Clauses
