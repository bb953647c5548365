pub mod CoverLemmas
pub mod FitLemmas
pub mod FlagLemmas
pub mod ForceLemmas
pub mod MatchLemmas
