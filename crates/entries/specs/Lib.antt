pub mod Lookup
pub mod Stored
