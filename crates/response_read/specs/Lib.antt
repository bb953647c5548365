pub mod Dns
pub mod Filters
pub mod Members
pub mod Nodes
pub mod Responses
pub mod Values
