pub mod Edit
pub mod Packing
pub mod Rebuild
pub mod Fit
