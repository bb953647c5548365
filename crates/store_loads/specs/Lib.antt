pub mod Forms
pub mod Told
pub mod Tells
pub mod First
