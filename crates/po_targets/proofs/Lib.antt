pub mod PairLaws
pub mod MarkLaws
