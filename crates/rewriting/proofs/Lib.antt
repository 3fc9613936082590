pub mod Over
pub mod Count
pub mod LexAcc
pub mod Kbo
pub mod Lpo
pub mod KboCases
pub mod LpoCases
pub mod Steps
