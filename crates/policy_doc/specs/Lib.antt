pub mod Document
pub mod Entries
pub mod FirstFault
pub mod Grants
pub mod Keys
pub mod Rules
pub mod Sound
pub mod Walks
