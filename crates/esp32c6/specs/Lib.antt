pub mod Channel
pub mod Code
pub mod When
