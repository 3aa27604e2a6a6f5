pub mod Same
pub mod Tables
pub mod Counting
pub mod Parts
pub mod Bools
pub mod Tests
pub mod Rules
