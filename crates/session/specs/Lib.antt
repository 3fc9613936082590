pub mod Rules
pub mod Kept
pub mod Calls
pub mod Pasts
pub mod Promises
pub mod Simplifies
