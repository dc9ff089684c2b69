pub mod Knowing
pub mod Plays
pub mod Rule
pub mod Shelves
