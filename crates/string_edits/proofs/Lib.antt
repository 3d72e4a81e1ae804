pub mod TurnLaws
pub mod ListLaws
pub mod ToldLaws
