pub mod Carets
pub mod ChartCarets
pub mod ScheduleCarets
pub mod EventLines
pub mod Standings
pub mod Spots
pub mod Wants
pub mod NamedCycles
