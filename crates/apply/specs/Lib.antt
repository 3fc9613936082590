pub mod Enters
pub mod Applies
