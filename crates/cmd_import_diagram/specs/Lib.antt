pub mod Importing
pub mod KindWords
pub mod Order
pub mod Refusals
pub mod Diagnostics
