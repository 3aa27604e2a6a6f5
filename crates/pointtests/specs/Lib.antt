pub mod PointTests
pub mod Clauses
