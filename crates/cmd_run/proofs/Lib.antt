pub mod FoundRaces
pub mod ShownRuns
