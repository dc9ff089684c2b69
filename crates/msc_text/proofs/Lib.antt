pub mod EventLoops
pub mod NamedReports
pub mod RaceTexts
pub mod ReaderLemmas
