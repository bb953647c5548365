pub mod PartLemmas
pub mod RangeLemmas
pub mod ReadLemmas
