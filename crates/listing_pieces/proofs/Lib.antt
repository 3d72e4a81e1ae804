pub mod PieceLaws
pub mod ListingLaws
pub mod PointLaws
pub mod PartLaws
pub mod OneLaws
