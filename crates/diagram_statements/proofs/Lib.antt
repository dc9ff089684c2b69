pub mod ToDiagramLemmas
