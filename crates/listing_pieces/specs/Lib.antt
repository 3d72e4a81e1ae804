pub mod Listing
pub mod Pieces
