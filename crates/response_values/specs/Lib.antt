pub mod Dns
pub mod Filters
pub mod Nodes
pub mod Responses
pub mod Values
