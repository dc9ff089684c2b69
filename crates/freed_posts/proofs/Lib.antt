pub mod Changes
pub mod Places
pub mod Steps
pub mod Takings
pub mod Tickets
