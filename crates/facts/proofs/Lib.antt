pub mod FactLaws
pub mod PassLaws
