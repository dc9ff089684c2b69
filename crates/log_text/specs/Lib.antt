pub mod Counts
pub mod Faults
pub mod Spots
pub mod Unread
