pub mod Answers
pub mod BoardAnswers
pub mod Performing
pub mod CommandLines
pub mod Several
pub mod Version
