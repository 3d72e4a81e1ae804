pub mod RowLaws
pub mod SumLaws
