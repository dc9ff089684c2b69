pub mod Arrows
pub mod Counts
pub mod Imports
pub mod Lanes
pub mod Plain
pub mod Turns
pub mod VectorTime
