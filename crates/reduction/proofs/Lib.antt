pub mod Subterms
pub mod Presence
pub mod Replacing
pub mod Comings
