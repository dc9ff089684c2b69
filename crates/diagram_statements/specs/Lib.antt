pub mod Lines
pub mod Options
pub mod Readings
pub mod Statements
pub mod ToDiagram
