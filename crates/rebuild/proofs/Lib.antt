pub mod Rebuilding
pub mod Forming
pub mod Looping
