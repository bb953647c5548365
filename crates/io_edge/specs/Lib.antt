pub mod Asked
pub mod Door
pub mod Edge
pub mod Named
pub mod Stream
pub mod Linked
