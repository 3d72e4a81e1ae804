pub mod Lines
pub mod Quoted
pub mod Kinds
pub mod Taken
