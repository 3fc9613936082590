pub mod Sides
pub mod Goals
pub mod Words
