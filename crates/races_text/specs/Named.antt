pub mod JsonText
pub mod Kept
pub mod PlainText
pub mod Listing
pub mod Stretches
pub mod Words
