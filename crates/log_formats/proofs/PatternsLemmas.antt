pub mod GroupLemmas
pub mod MatchLemmas
pub mod ObservingLemmas
pub mod UnreadLemmas
