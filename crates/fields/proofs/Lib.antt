mod Digits
pub mod Cutting
