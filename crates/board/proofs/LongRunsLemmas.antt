pub mod CarriedLanes
pub mod CarriedOver
pub mod CarryingLoops
pub mod CarryingOn
pub mod LaneCounts
pub mod PostedSends
pub mod Preparing
pub mod Untouched
