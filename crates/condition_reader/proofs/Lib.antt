pub mod Spelling
pub mod Readers
pub mod Answers
pub mod Unique
