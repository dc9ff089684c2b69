pub use Rattle.chart.specs.Names
pub mod NamedWords
