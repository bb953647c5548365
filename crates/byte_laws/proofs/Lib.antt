mod Lists
pub mod Orders
pub mod Carrying
pub mod Reading
pub mod Folded
pub mod Running
