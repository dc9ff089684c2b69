pub mod Arrivals
pub mod Messages
pub mod Patterns
pub mod Observations
