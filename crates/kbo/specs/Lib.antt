pub mod Weights
pub mod Verdicts
pub mod Differences
