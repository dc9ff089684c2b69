pub mod ChartLines
pub mod ChartOrder
pub mod Building
pub mod Listing
