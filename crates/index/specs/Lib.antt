pub mod Maps
pub mod Found
pub mod Questions
pub mod Agreement
