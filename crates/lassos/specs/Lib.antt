pub mod Lassos
pub mod Dual
pub mod Distances
