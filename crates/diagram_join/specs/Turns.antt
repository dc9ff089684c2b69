pub mod Diagrams
pub mod Sends
pub mod Turns
