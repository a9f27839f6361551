pub mod Written
pub mod Keeps
pub mod Unique
