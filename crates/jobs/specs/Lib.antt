pub mod Output
pub mod SuperFrame
pub mod Clauses
pub mod Numbered
