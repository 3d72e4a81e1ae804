pub mod EditedLaws
pub mod FinishLaws
pub mod InPlaceLaws
