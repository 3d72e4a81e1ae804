pub mod SlotLaws
pub mod HeaderLaws
pub mod ReadLaws
pub mod FaultLaws
