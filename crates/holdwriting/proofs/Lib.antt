pub mod Putting
pub mod LinesPut
pub mod FilePut
