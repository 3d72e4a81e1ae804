pub mod RecordLaws
pub mod RowLaws
pub mod EntryLaws
pub mod MoveLaws
pub mod NumberLaws
