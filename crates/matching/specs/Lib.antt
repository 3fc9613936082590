pub mod Matched
pub mod Solving
