pub mod Applying
