pub mod Relocate
