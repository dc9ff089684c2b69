pub mod FoundLemmas
pub mod PickLemmas
pub mod StepLemmas
pub mod TableLemmas
pub mod WalkLemmas
