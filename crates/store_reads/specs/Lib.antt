pub mod Readable
pub mod Seen
pub mod Back
pub mod Causes
pub mod Values
pub mod Damages
