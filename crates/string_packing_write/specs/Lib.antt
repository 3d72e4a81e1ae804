pub mod Region
pub mod Written
