pub mod Luck
pub mod Recordings
