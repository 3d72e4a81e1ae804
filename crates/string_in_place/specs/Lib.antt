pub mod Patch
pub mod Known
