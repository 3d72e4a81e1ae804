pub mod ReadingLaws
pub mod UnitLaws
pub mod LengthLaws
pub mod PieceLaws
pub mod PointLaws
pub mod Utf16Laws
pub mod Utf8Laws
