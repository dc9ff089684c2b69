pub mod Answers
pub mod Pairs
pub mod Sayings
pub mod SayingText
