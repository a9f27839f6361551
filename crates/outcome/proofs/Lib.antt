pub mod Lengths
pub mod Outputs
pub mod Unique
