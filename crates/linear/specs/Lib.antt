pub mod Apart
pub mod Loose
