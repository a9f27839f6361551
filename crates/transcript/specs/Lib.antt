pub mod Transcript
pub mod Pieces
