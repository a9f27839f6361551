pub mod Explain
pub mod Parts
