pub mod Slots
pub mod Headers
pub mod Faults
