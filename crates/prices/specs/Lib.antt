pub mod Prices
pub mod Parsing
