pub mod PortTexts
pub mod Protocols
pub mod Ranges
