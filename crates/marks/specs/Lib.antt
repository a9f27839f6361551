pub mod Marks
pub mod Reading
pub mod Parsing
