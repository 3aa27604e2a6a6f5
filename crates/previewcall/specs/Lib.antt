-- The call, and the theorem.
pub mod Preview
pub mod RunsWithPreviews
-- The record of a preview from its parts.
pub mod Clauses
