pub mod AnswerLemmas
pub mod CompleteLemmas
