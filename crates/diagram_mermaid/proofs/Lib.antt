pub mod LabelLoops
pub mod NameLoops
pub mod PieceLoops
pub mod SignLoops
pub mod TextLoops
