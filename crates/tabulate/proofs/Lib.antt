pub mod Tabulates
pub mod Unique
