pub mod Elements
pub mod Frames
pub mod Legends
