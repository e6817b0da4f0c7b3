pub mod Answers
pub mod Doubles
pub mod Parts
pub mod Sound
pub mod Spans
pub mod Unique
pub mod Walk
