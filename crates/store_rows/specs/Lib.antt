pub mod Reads
pub mod Cells
pub mod Lists
pub mod Addresses
pub mod Endpoints
pub mod Rows
pub mod Readable
pub mod Reading
