pub mod Description
pub mod Build
pub mod Read
pub mod Theorems
pub mod Frame
pub mod Clauses
