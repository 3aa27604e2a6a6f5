pub mod Coded
pub mod Protected
pub mod Fac
pub mod Sdc
pub mod Msc
pub mod Made
pub mod Lent
pub mod Schemes
