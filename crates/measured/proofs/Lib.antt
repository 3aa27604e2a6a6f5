pub mod Integers
pub mod Accepts
pub mod Agreement
pub mod Undamaged
