pub mod Laws
pub mod LevelCharts
