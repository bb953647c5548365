pub mod Checks
pub mod EntryChecks
pub mod TextChecks
