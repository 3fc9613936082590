pub mod Trees
pub mod Pools
pub mod Contents
pub mod Ways
pub mod Taken
