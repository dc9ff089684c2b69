pub mod NamesLemmas
pub mod TakesLemmas
mod WindowLemmas
