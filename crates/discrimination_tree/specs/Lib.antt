pub mod Rows
pub mod Loose
