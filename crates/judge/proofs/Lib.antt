pub mod Judges
pub mod Unique
