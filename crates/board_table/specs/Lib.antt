pub mod Carrying
pub mod Knowing
pub mod Layout
pub mod Leaving
pub mod Plays
pub mod Recording
pub mod Rule
