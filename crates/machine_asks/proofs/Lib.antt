pub mod DecisionLaws
pub mod Drains
mod Keyed
mod Lives
mod Registrations
mod Repeats
mod Seeds
pub mod Updates
mod Waits
