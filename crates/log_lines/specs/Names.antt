pub mod Hosts
pub mod Ids
pub mod Naming
