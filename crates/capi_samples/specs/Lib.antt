pub mod Answer
pub mod Log
