pub mod Escapes
pub mod Spellings
pub mod Says
pub mod Replies
