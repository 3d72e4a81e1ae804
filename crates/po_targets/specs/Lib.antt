pub mod Targets
pub mod Marks
