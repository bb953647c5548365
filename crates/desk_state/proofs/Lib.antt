pub mod GatheredLive
pub mod Kept
pub mod Proper
pub mod Rests
pub mod RowLemmas
pub mod Sameness
pub mod SoundChanges
pub mod TextLemmas
