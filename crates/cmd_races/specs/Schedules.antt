pub mod Makers
pub mod Showing
pub mod Tables
pub mod Verdicts
