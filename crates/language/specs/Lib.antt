pub mod Spelling
pub mod Kept
pub mod Room
