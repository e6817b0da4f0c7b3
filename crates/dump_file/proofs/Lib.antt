pub mod Loads
pub mod Unique
