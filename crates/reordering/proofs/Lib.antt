pub mod CompletionLemmas
pub mod OtherRunsLemmas
pub mod WitnessLemmas
