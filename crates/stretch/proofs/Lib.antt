pub mod DemandThree
pub mod Exactly
pub mod Fills
pub mod Ramps
pub mod Says
pub mod Segments
pub mod Stretches
pub mod Unique
