pub mod Exactly
pub mod Logs
pub mod Samples
pub mod Says
pub mod Tells
pub mod Unique
