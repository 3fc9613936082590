pub mod Enter
pub mod Machine
pub mod Grown
pub mod Outcome
