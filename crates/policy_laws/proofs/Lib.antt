pub mod CheckLemmas
pub mod EntryCheckLemmas
pub mod TextCheckLemmas
