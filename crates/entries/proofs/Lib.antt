pub mod Distinct
pub mod Lookups
pub mod Moves
pub mod Stores
