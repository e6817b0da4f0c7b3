pub mod Output
pub mod Part
pub mod Step
