pub mod Decision
pub mod Kept
pub mod Saving
