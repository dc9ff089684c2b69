pub mod EntryLemmas
pub mod FaultLemmas
pub mod StreamLemmas
pub mod WordLemmas
