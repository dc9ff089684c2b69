pub mod ChartLemmas
pub mod KindLemmas
