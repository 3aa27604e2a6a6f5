pub mod Files
pub mod Asked
