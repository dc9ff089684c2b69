pub mod ByLine
pub mod Outcomes
pub mod Performed
