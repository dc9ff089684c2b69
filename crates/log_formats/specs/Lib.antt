pub mod Clocks
pub mod Patterns
