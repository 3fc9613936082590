pub mod Retained
