pub mod Answers
pub mod Calls
pub mod NoteLemmas
pub mod Posts
pub mod Recordings
pub mod ReorderedRunsLemmas
pub mod Scanning
