pub mod CheckLaws
pub mod AdmitLaws
pub mod FaultLaws
pub mod PlaceLaws
pub mod KindLaws
