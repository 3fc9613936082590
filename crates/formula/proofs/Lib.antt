pub mod Named
pub mod Tables
pub mod Lowest
pub mod Scanning
pub mod Laying
pub mod Resolving
pub mod Meaning
pub mod Concluding
