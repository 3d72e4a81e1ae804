pub mod Strings
pub mod Pass
