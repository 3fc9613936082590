pub mod Variables
pub mod Texts
pub mod RoundTrip
