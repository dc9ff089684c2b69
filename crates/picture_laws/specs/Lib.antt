pub mod Arrows
pub mod Marks
pub mod Places
pub mod Witnesses
