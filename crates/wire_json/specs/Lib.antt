pub mod AdminFields
pub mod Body
pub mod Fields
pub mod MapRequest
pub mod Readers
pub mod Register
