pub mod Points
pub mod Sums
pub mod Unique
