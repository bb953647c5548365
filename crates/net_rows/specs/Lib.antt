pub mod Shelf
pub mod Rows
pub mod Held
pub mod Damage
pub mod Room
pub mod Sound
