pub mod Answers
pub mod Conversions
pub mod Exactly
pub mod Lookups
pub mod Rising
pub mod Says
pub mod Unique
