pub mod Symbols
mod Cuts
mod Sounds
mod Once
