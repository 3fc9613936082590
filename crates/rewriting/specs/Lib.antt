pub mod Replace
pub mod Order
pub mod Count
pub mod Kbo
pub mod Lpo
pub mod Steps
