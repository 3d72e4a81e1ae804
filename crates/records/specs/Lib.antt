pub mod Sum
pub mod Records
