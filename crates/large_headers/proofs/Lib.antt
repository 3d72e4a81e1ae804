pub mod OrderLaws
pub mod ClearLaws
