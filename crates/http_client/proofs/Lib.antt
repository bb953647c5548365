pub mod AnswerHeads
pub mod AnswerLaws
pub mod AnswerLooks
pub mod Pieces
pub mod SentAnswers
pub mod SentHeads
