pub mod FinishedFrame
