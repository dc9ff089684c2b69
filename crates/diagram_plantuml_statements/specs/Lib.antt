pub mod Looks
pub mod Notes
pub mod Participants
pub mod Meanings
pub mod Statements
