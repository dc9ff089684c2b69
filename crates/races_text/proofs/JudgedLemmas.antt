pub mod FoundParts
pub mod NextParts
pub mod PartLemmas
pub mod RaceLemmas
pub mod SummaryLemmas
pub mod TextLemmas
