mod AnswerLemmas
mod CauseLemmas
mod CompleteLemmas
