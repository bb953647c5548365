pub mod Exchange
pub mod Filed
pub mod Operated
