pub mod Swapping
pub mod Sizes
