pub mod Footer
pub mod Finalize
