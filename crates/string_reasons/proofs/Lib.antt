pub mod OverlapLaws
pub mod PathLaws
pub mod AnswerLaws
pub mod NumberLaws
pub mod FactLaws
pub mod TrueLaws
