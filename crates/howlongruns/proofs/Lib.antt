pub mod Pieces
pub mod OneStream
pub mod Frames
pub mod Calls
pub mod Handed
pub mod Codable
pub mod Theorem
