pub mod Boards
pub mod Boxes
pub mod OneRun
pub mod Passing
pub mod SpentNames
pub mod Turns
