pub mod Chain
pub mod Private
pub mod Reading
pub mod Rule
pub mod Table
pub mod Tag
pub mod When
