pub mod Answers
pub mod Answered
pub mod Complete
pub mod Explained
