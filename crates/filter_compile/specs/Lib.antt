pub mod Admits
pub mod Filters
pub mod Held
pub mod Isolation
pub mod Parts
pub mod Unrestricted
