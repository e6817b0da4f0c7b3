pub mod Characterize
pub mod Code
pub mod Decode
pub mod ExactSum
pub mod Private
pub mod TrueSource
pub mod When
