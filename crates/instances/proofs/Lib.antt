pub mod Boards
pub mod Effects
pub mod Running
pub mod Stretches
pub mod Accepted
