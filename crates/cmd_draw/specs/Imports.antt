pub mod Drawing
pub mod Diagnostics
pub mod Turns
