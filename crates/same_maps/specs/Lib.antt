pub mod Parts
pub mod Nodes
pub mod Filters
pub mod Dns
