pub mod AnswerBytes
pub mod HeadFaults
pub mod Lines
pub mod Looks
pub mod Requests
pub mod Streams
pub mod Taking
pub mod Target
