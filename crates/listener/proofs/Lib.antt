pub mod OneMoreCall
pub mod Plans
pub mod Stretch
pub mod Followed
