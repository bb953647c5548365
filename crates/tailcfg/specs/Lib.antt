pub mod Responses
pub mod Short
