pub mod Theorem
pub mod Joins
pub mod Unique
