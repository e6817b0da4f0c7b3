pub mod Dump
pub mod Lengths
pub mod Private
pub mod View
pub mod When
