pub mod Job
pub mod Pieces
