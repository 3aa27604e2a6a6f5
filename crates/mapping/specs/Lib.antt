pub mod Axes
pub mod Clauses
pub mod Labels
pub mod Labellings
