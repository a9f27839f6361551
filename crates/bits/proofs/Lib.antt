pub mod Words
pub mod Rows
pub mod Counts
pub mod Tables
