pub mod Dests
pub mod Faults
pub mod Flows
pub mod Internet
pub mod Named
pub mod Names
pub mod Nets
pub mod Selectors
