pub mod CodeTurns
