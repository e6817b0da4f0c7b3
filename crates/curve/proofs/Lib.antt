pub mod Corrections
pub mod Exactly
pub mod Says
pub mod Tables
pub mod Unique
