pub mod Comments
pub mod Diagrams
pub mod Directives
pub mod Ends
pub mod Joints
pub mod Regions
pub mod Standings
