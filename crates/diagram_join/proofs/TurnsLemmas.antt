pub mod MessageLemmas
pub mod SendLemmas
