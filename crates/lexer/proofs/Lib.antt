pub mod Heads
pub mod Lexing
pub mod Cuts
