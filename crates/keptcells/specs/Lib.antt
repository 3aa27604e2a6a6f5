-- The call that reads on.
pub mod ReadOn
-- What functions require.
pub mod Clauses
