pub mod JudgedLemmas
pub mod NamedLemmas
