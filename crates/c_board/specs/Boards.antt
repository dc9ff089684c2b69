pub mod BoardCopies
pub mod BoardText
pub mod Naming
