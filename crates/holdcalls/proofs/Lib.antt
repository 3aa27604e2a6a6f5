pub mod StoreCalls
pub mod RestoreCalls
pub mod StoredBack
pub mod StoredAgain
pub mod MemoryBytes
pub mod RunsOn
