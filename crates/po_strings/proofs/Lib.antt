pub mod PointLaws
pub mod UnitLaws
pub mod StringLaws
