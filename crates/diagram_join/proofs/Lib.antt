pub mod CoregionLemmas
pub mod CutLemmas
pub mod BuildingLemmas
pub mod InstanceLemmas
pub mod MoveLemmas
pub mod PossibleLemmas
pub mod StayingLemmas
pub mod TurnsLemmas
