pub mod Lanes
pub mod Notes
