pub mod BestLemmas
pub mod CycleLemmas
pub mod FrontLemmas
pub mod LeadLemmas
pub mod PassLemmas
pub mod ShorterRounds
pub mod StepLemmas
pub mod UnderLemmas
