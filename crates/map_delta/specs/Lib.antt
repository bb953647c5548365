pub mod Puts
pub mod Fold
pub mod Delta
pub mod Listed
