pub mod KeptChange
pub mod KeptFirst
pub mod KeptLists
pub mod KeptSteps
pub mod Pending
