pub mod Arguments
pub mod Lines
pub mod Table
pub mod Words
