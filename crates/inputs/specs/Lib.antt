pub mod Input
pub mod When
