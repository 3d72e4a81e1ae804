pub mod Records
pub mod Runs
pub mod Walk
pub mod Places
pub mod Units
