pub mod C6
pub mod S2
