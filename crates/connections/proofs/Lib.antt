pub mod Tellings
pub mod SentLemmas
pub mod AnswerLemmas
pub mod PollLemmas
pub mod ServeLemmas
pub mod Seen
pub mod Heard
