pub mod Translate
pub mod Space
pub mod Faults
