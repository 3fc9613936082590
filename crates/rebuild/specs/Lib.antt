pub mod Forms
pub mod Rebuilds
