pub mod Answers
pub mod Imports
pub mod Logs
pub mod Marks
pub mod Races
pub mod Showing
pub mod Text
