pub mod Dumps
pub mod Exactly
pub mod Lists
pub mod Unique
pub mod Views
