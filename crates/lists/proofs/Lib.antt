pub mod Members
pub mod Chosen
pub mod Counting
pub mod Tests
