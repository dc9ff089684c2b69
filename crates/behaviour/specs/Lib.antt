pub mod Bare
pub mod Scripts
