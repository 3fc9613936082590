pub mod Numbered
pub mod Rules
pub mod Offers
pub mod Goals
