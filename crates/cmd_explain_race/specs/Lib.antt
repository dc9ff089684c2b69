pub mod Answers
pub mod Explaining
pub mod Finding
pub mod Reordering
pub mod Verdicts
pub mod FilePairs
pub mod Witnessing
