pub mod Cells
pub mod Frames
pub mod Retrieval
