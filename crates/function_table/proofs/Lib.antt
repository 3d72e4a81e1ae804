pub mod ReadLaws
pub mod TailLaws
