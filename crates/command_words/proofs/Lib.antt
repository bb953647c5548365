pub mod ValueLemmas
pub mod WordsLemmas
