pub mod EachLemmas
pub mod FifoLemmas
pub mod HistoryLemmas
pub mod LineLemmas
pub mod LinesLemmas
pub mod ListLemmas
pub mod PossibleLemmas
pub mod RoomLemmas
