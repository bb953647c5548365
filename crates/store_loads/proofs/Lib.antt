pub mod Firsts
pub mod Schemas
pub mod TellTrees
pub mod Telling
pub mod Loading
pub mod Naming
