pub mod Correct
pub mod Private
pub mod Table
pub mod When
