pub mod RunLaws
pub mod IndexLaws
pub mod FaultLaws
