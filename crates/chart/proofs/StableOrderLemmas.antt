pub mod OrderLemmas
pub mod MappedLemmas
