pub mod ArcLemmas
pub mod Loops
