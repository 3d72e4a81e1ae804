pub mod LineLaws
pub mod QuoteLaws
pub mod KindLaws
