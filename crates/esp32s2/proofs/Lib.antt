pub mod Fields
pub mod Ones
pub mod Says
pub mod Tells
pub mod Unique
