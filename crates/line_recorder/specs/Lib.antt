pub mod Carried
pub mod Kept
pub mod Laws
pub mod Recorders
pub mod Recording
pub mod Sends
