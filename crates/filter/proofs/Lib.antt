pub mod Keeping
pub mod Filtering
