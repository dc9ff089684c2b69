pub mod Explaining
pub mod Findings
pub mod Kinds
pub mod Sayings
pub mod Verdicts
pub mod Words
