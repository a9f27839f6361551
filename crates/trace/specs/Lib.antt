pub mod Trace
pub mod Stepping
