pub mod Encryption
pub mod Version
