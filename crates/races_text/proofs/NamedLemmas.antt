pub mod FoundRaces
pub mod Joined
pub mod LaterRaces
pub mod StretchLemmas
