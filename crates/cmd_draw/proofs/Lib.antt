pub mod ImportsLemmas
pub mod RefusedLemmas
pub mod SpanLemmas
pub mod WindowLemmas
pub mod WitnessLemmas
