pub mod Tokens
pub mod Next
