pub mod Laws
pub mod OtherRuns
pub mod Walks
