pub mod Sections
pub mod Strings
pub mod Kinds
pub mod Functions
pub mod Admission
pub mod Admitted
pub mod Faults
