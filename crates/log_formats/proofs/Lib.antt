pub mod ClocksLemmas
pub mod PatternsLemmas
