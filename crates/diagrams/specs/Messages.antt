pub mod Each
pub mod Following
pub mod Lines
pub mod Opening
pub mod Regions
pub mod Turns
