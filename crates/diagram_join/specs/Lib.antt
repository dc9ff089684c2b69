pub mod Coregions
pub mod Building
pub mod Joined
pub mod Joins
pub mod Moves
pub mod Tables
pub mod Turns
