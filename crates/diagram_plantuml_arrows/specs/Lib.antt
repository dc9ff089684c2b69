pub mod Arrows
pub mod Bodies
pub mod Names
pub mod Runs
pub mod Tails
pub mod Tips
