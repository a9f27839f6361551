pub mod Culprits
pub mod Conditions
