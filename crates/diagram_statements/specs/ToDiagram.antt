pub mod Activations
pub mod Acts
pub mod Drawings
pub mod Folds
pub mod Frames
pub mod Labels
pub mod Participants
pub mod Rows
