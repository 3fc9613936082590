pub mod Turning
pub mod Looping
pub mod Entering
pub mod Going
