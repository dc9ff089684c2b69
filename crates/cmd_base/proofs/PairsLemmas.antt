pub mod Growing
pub mod PairLemmas
