pub mod Differences
pub mod Instances
pub mod Laws
pub mod Parcels
pub mod Runs
pub mod Steps
pub mod World
