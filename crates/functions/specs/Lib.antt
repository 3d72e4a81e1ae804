pub mod Patch
pub mod Stages
