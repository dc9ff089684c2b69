pub mod DetectionLemmas
