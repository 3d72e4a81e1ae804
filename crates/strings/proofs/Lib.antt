pub mod LongLaws
pub mod PatchLaws
pub mod PassLaws
