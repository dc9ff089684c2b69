pub use Rattle.texts.specs.Writing
pub mod Tasks
pub mod Turns
pub mod Checking
pub mod Showing
