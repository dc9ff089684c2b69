pub mod Handling
pub mod Laws
pub mod Orders
pub mod Runs
pub mod Tables
