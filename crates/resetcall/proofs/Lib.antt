pub mod ResetCalls
