pub mod Lasting
pub mod Pairs
pub mod Sides
pub mod TestEnds
pub mod Tests
pub mod Trials
