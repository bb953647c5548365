pub mod Canonical
pub mod Gaps
pub mod Joins
pub mod Meets
pub mod Sets
pub mod Spans
pub mod Walks
