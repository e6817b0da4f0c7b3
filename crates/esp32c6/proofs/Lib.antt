pub mod Channels
pub mod Codes
pub mod Exactly
pub mod Fields
pub mod Ranges
pub mod Says
pub mod Tells
pub mod Unique
