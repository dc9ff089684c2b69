pub mod ChartLemmas
pub mod EndLemmas
pub mod MessageLemmas
pub mod OrderLemmas
pub mod ReadLemmas
pub mod StampLemmas
pub mod TableLemmas
