pub mod Gaps
pub mod Detection
