pub mod Commands
pub mod Draw
pub mod Progress
pub mod Queued
pub mod Turns
