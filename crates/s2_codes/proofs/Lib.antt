pub mod Codes
pub mod Exactly
pub mod Ranges
pub mod Says
pub mod Tells
pub mod Unique
