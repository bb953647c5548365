pub mod TableLemmas
pub mod SearchLemmas
pub mod AddressLemmas
pub mod AddressLaws
pub mod Pigeonhole
pub mod NameLemmas
pub mod NumberedLemmas
pub mod NameLaws
