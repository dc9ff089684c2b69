pub mod ExcerptLemmas
