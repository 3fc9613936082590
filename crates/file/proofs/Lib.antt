pub mod Pairs
pub mod Sizes
pub mod Filing
