pub mod Behaviours
pub mod LongRuns
