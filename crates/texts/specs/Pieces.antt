pub mod Pieces
pub mod RaceWords
