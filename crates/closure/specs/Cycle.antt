pub mod Cycles
pub mod Fronts
pub mod Rounds
pub mod Turns
