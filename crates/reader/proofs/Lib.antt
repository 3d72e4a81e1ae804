pub mod FunctionLaws
pub mod ReadingLaws
pub mod PartLaws
pub mod RefusalLaws
