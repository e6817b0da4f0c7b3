pub mod Convert
pub mod Lookup
pub mod When
