pub mod PartLemmas
pub mod NodeLemmas
pub mod FilterLemmas
pub mod DnsLemmas
