pub mod JudgedLemmas
pub mod MarksLemmas
pub mod RaceLemmas
pub mod TextLemmas
