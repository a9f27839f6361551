pub mod Runs
pub mod Unique
