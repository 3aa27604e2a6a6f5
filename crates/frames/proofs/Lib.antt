pub mod FrameTurns
