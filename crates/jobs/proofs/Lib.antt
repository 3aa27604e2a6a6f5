pub mod Joins
pub mod Rooms
pub mod Lengths
pub mod Steps
pub mod Fronts
pub mod JobRefusals
