pub mod Choices
pub mod Isolation
pub mod Nodes
pub mod Reaches
pub mod Routers
pub mod Seen
pub mod Shown
pub mod Worlds
