pub mod Tokens
pub mod Standard
pub mod Scan
