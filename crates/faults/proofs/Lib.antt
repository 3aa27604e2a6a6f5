pub mod FaultTurns
