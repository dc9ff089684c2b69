pub mod MarginLemmas
pub mod TextLemmas
