pub mod MarkLaws
pub mod ApplyLaws
pub mod SpaceLaws
pub mod PoLaws
pub mod ByteLaws
pub mod FaultLaws
