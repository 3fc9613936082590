pub mod Ties
pub mod Changes
pub mod Loosely
