pub mod Patches
pub mod Promise
pub mod Faults
pub mod Lists
pub mod Orders
