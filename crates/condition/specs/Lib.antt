pub mod Condition
pub mod Texts
pub mod Words
