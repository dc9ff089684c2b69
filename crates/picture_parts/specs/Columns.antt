pub mod Choices
pub mod Placing
pub mod Rooms
pub mod TextWidths
