pub mod FooterLaws
pub mod FinalizeLaws
pub mod SealLaws
pub mod SameLaws
