pub mod Report
pub mod Words
pub mod Writing
