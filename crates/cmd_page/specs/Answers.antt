pub mod Answering
pub mod Leaving
pub mod Standing
