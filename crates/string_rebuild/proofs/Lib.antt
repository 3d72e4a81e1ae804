pub mod RebuildLaws
pub mod JudgeLaws
