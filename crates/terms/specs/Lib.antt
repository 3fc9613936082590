pub mod Term
pub mod Sig
pub mod Preorder
pub mod Patterns
pub mod Sides
