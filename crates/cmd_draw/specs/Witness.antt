pub mod Answers
pub mod Beside
pub mod Counterparts
pub mod Drawing
pub mod Stages
