pub mod Index
pub mod Filling
pub mod Faults
