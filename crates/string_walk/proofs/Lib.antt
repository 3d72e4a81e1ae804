pub mod VisitLaws
pub mod WalkLaws
pub mod RunLaws
pub mod RankLaws
pub mod UnitLaws
pub mod RecordLaws
