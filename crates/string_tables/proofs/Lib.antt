pub mod KindLaws
pub mod StringLaws
