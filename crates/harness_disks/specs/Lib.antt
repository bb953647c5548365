pub mod Faulty
pub mod Recorded
