pub mod Map
pub mod Tells
pub mod Told
pub mod Value
pub mod When
