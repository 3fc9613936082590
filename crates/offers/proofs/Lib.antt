pub mod Numbering
pub mod Gathering
pub mod Asking
