pub mod Copies
pub mod Shelves
