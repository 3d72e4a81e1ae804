pub mod Reasons
pub mod Facts
