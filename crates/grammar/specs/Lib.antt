pub mod Kinds
pub mod Syntax
pub mod Machine
pub mod Fits
pub mod Outcomes
