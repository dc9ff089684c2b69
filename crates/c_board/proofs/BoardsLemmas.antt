pub mod LaneLemmas
pub mod NameLemmas
