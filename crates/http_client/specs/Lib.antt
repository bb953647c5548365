pub mod Answers
pub mod Asks
pub mod Taking
