pub mod EventRows
pub mod Excerpts
pub mod PageText
pub mod RaceText
pub mod Words
