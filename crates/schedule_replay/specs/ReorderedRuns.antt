pub mod Runs
pub mod Schedules
pub mod Showing
pub mod Reorderings
