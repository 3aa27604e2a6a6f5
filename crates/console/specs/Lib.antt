pub mod Text
pub mod Names
pub mod Arguments
