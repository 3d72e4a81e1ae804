pub mod Parts
pub mod Builder
