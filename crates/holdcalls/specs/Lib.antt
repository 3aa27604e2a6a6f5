-- The calls.
pub mod Store
pub mod Restore
-- The theorems.
pub mod Held
pub mod HeldRuns
-- What functions inside a call require and promise.
pub mod Clauses
