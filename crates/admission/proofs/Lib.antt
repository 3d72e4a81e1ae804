pub mod StageLaws
pub mod AnswerLaws
