pub mod Lines
pub mod Stepping
