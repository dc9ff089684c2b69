pub mod Deciding
pub mod HandlingLemmas
pub mod LeftRaces
pub mod OrderLemmas
pub mod Possible
pub mod QueryLemmas
pub mod RunLemmas
pub mod TableLemmas
