pub mod Spelling
pub mod Parsing
pub mod Counting
pub mod Back
