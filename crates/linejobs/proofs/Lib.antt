pub mod ReceivedValues
pub mod Found
pub mod Held
pub mod Answered
