pub mod Marks
pub mod Steps
pub mod Reading
pub mod TokenMarks
pub mod Marking
pub mod Alone
pub mod Lengths
