pub mod NameLoops
pub mod PlaceLoops
