pub mod Strings
pub mod File
pub mod Work
