pub mod JobLaws
pub mod RecordLaws
pub mod CloseLaws
pub mod PieceLaws
