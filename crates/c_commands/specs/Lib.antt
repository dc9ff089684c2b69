pub mod Performing
pub mod Texts
pub mod CommandLines
