pub mod Joining
pub mod Runs
