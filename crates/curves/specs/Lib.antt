pub mod Curves
pub mod Decimal
pub mod Error
pub mod Flat
pub mod FromDouble
pub mod NothingLost
