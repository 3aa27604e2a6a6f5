pub mod TwoLengths
pub mod SettingsGiven
pub mod Stores
