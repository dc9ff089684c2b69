pub mod ColumnsLemmas
pub mod Numerals
pub mod PairsLemmas
pub mod PartLemmas
pub mod TextLemmas
