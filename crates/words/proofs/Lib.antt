pub mod Decimals
pub mod Rooms
pub mod Spelt
pub mod Unique
