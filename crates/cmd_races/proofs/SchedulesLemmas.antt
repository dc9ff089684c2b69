pub mod TableLemmas
pub mod BehindLemmas
