pub mod Tidying
pub mod Typing
