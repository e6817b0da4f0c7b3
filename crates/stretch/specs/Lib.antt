pub mod DemandThree
pub mod Fill
pub mod Private
pub mod Stretches
pub mod When
