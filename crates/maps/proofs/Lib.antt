pub mod Exactly
pub mod Maps
pub mod Says
pub mod Tells
pub mod Told
pub mod Unique
