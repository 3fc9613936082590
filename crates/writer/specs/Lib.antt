pub mod Walks
pub mod Outcome
