-- The calls and runs, in the paper's order.
pub mod Answers
pub mod Memory
pub mod Interleaving
pub mod Call
pub mod Reset
pub mod Code
pub mod Read
pub mod Blocks
pub mod Runs
pub mod Standard
-- The theorems.
pub mod SingleCalls
pub mod WholeRuns
-- What functions inside a call require and promise.
pub mod Clauses
