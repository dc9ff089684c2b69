pub mod Marking
pub mod Pairing
pub mod Judging
