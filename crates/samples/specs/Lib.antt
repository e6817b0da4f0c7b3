pub mod Answer
pub mod Log
pub mod When
