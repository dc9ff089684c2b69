pub mod Answering
pub mod Driving
pub mod Traces
pub mod Whole
pub mod Laws
