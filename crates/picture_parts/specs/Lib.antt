pub mod Columns
pub mod Elements
