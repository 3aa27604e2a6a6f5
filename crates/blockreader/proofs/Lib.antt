mod Reading
pub mod BlockTurns
