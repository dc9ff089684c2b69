pub mod RaceLemmas
pub mod ReorderingLemmas
