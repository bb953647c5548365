pub mod Dns
pub mod Frames
pub mod Nodes
pub mod Responses
pub mod Trees
