pub mod JsonText
pub mod Parts
pub mod PartsLeft
pub mod PlainText
pub mod LogVerdicts
pub mod Listing
pub mod Summaries
pub mod Words
