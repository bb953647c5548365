pub mod Covering
pub mod Expansion
