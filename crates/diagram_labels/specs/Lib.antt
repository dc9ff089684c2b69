pub mod Giving
pub mod Hints
pub mod Labels
pub mod Laws
pub mod Renamed
pub mod Renaming
pub mod Spelling
