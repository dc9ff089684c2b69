pub mod Entering
pub mod Faults
pub mod Logs
