pub mod Cuts
pub mod Turned
