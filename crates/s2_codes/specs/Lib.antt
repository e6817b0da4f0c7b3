pub mod Code
pub mod When
