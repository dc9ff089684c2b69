pub mod ChartText
pub mod MadeLines
pub mod RaceText
pub mod Reader
