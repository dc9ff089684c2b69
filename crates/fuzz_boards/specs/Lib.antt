pub mod RandomActs
pub mod Filling
