mod ClosedRules
mod Differences
mod Entered
mod EntranceRows
mod Every
pub mod Following
pub mod GoneIds
mod Growth
mod Handles
mod Hiding
mod LiveMachines
mod LiveRows
mod MachinePuts
mod MapAnswers
pub mod Numbers
mod Online
mod OperatorPuts
mod PolicyPuts
mod Presence
mod Puts
mod Replied
mod SoundRules
pub mod SoundStates
mod SpentKeys
mod Steps
mod Taken
mod UsedKeys
mod Workers
