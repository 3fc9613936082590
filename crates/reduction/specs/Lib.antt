pub mod Reaches
pub mod Replaced
pub mod Redexes
pub mod Steps
pub mod Runs
pub mod Laws
pub mod Words
