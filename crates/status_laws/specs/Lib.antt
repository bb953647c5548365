pub mod Causes
pub mod Complete
pub mod Answers
