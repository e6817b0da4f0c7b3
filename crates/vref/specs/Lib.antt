pub mod Coefficients
pub mod Private
