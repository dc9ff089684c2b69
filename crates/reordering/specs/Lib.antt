pub mod Completion
pub mod OtherRuns
pub mod Witness
