pub mod PartLaws
pub mod BuilderLaws
