pub mod LongRunsLemmas
