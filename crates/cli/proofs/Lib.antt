mod TableLemmas
mod ReadingLemmas
mod RequestLemmas
mod FormLemmas
