pub mod Preorders
pub mod Places
pub mod Patterns
pub mod Counting
pub mod Tables
