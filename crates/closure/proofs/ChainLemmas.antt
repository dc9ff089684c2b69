pub mod ChainLemmas
pub mod ChainsMade
pub mod Leading
pub mod Nearest
pub mod PastLemmas
pub mod SearchSteps
