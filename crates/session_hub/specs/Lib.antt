pub mod Calls
pub mod Lines
pub mod Plays
pub mod Rule
pub mod Seats
pub mod Unsaid
