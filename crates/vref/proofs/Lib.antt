pub mod Halves
pub mod Lines
pub mod Unique
