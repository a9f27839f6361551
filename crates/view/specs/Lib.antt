pub mod View
pub mod Writing
