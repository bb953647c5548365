pub mod Runs
pub mod Visits
pub mod Works
pub mod Crews
pub mod Service
pub mod Serve
pub mod Complete
pub mod ServiceLaws
