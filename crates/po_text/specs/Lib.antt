pub mod Marks
pub mod Written
