pub mod Exactly
pub mod Records
pub mod Says
pub mod Sources
pub mod Unique
pub mod VrefRecords
