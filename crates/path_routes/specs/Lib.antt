pub mod Finds
pub mod Leads
pub mod Segments
pub mod Table
