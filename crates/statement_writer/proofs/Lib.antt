pub mod Puts
pub mod Series
