pub mod LeadLemmas
pub mod OnlyLemmas
pub mod SeekLemmas
pub mod SoughtLemmas
pub mod TableLemmas
