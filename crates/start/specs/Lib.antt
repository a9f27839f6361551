pub mod Start
pub mod Parsing
