pub mod Blames
pub mod Unique
