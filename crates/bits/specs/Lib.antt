pub mod Choice
pub mod Bytes
pub mod Fields
pub mod Words
pub mod Outcome
pub mod Word32
