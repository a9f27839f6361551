pub mod Splits
pub mod Taken
pub mod Walks
pub mod Unique
