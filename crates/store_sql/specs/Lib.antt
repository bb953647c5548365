pub mod Commands
pub mod Means
pub mod Schema
pub mod Ran
pub mod Standing
pub mod Making
