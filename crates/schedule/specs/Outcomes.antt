pub use Rattle.msc_text.specs.ChartText
pub use Rattle.texts.specs.Writing
pub mod OutcomeText
pub mod Outcomes
pub mod Performed
