pub mod Fresh
pub mod Frames
pub mod Granted
pub mod InOrder
pub mod Profiles
pub mod Responses
