pub mod Layouts
pub mod Refusals
pub mod RoundTrip
pub mod Octets
pub mod FrameBits
