pub mod Exactly
pub mod Inputs
pub mod Tells
pub mod Unique
pub mod Values
