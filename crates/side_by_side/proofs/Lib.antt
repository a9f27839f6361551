pub mod Pieces
pub mod Starts
pub mod Stepping
pub mod Closings
