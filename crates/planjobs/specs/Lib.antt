pub mod Arguments
pub mod Clauses
pub mod Lines
pub mod Week
