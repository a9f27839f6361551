pub mod Rows
pub mod Culprits
pub mod Paths
