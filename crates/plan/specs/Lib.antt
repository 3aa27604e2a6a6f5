pub mod Rules
pub mod Answers
pub mod Theorems
pub mod Clauses
pub mod Numbered
