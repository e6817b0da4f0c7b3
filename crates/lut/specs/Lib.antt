pub mod Lookup
pub mod Point
pub mod Row
