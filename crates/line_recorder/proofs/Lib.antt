pub mod Carrying
pub mod Charted
pub mod KeptLemmas
pub mod Recording
pub mod SendsLemmas
