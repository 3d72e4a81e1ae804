pub mod AdmitLaws
pub mod JudgeLaws
pub mod WriteLaws
