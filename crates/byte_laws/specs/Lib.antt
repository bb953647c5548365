pub mod Orderly
pub mod Answers
pub mod Folding
pub mod Runs
