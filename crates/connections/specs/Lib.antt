pub mod Tellings
pub mod Carried
pub mod Polls
pub mod Exchanges
pub mod Asked
pub mod Polled
pub mod Connection
pub mod Folded
