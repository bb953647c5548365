pub mod Faults
pub mod Gone
pub mod Kept
pub mod Pending
