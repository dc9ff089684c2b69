pub mod Imports
pub mod Judging
pub mod Logs
pub mod Schedules
pub mod Showing
pub mod Statuses
