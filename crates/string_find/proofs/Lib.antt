pub mod FindLaws
pub mod HashLaws
