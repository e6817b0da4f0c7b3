pub mod Decoding
pub mod Record
pub mod VrefRecords
pub mod When
